pub mod Script
pub mod ScriptOutput
pub mod SessionState
pub mod Answering
pub use Rattle.signctl_format.specs.ScriptSetup
