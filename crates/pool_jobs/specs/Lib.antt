pub mod Setup
pub mod Work
pub mod Meaning
pub mod Run
pub mod Laws
pub use Rattle.desk_parts.specs.Tables
pub use Rattle.sign_desk.specs.DeskState
pub use Rattle.signctl_format.specs.Policy
