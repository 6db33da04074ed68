pub mod Answers
pub use Rattle.sign_io.specs.Faults
pub use Rattle.signctl_core.specs.Commands
