pub mod Commands
pub mod Program
pub use Rattle.signctl_driver.specs.Reasons
pub use Rattle.signctl_driver.specs.Streams
