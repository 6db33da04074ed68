pub mod SignedForm
pub mod CheckedHead
pub mod SignedLaw
pub use Rattle.sign_time.specs.MomentRead
pub use Rattle.sigv4_core.specs.Credential
pub use Rattle.sigv4_core.specs.Scope
pub use Rattle.sigv4_core.specs.SignedHead
