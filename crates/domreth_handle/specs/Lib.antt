pub mod Held
pub mod Statuses
pub mod Calls
pub use Rattle.domreth_desk.specs.Events
