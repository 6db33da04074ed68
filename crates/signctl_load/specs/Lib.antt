pub mod LoadRound
pub mod Load
pub mod LoadState
pub use Rattle.sign_io.specs.Faults
pub use Rattle.signctl_driver.specs.Status
