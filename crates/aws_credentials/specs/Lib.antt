pub mod Session
pub mod Clock
pub mod Found
pub mod Environment
pub use Rattle.sigv4_core.specs.Credential
pub use Rattle.sigv4_core.specs.Refused
