pub mod Links
pub mod Lock
pub mod LockCalls
pub mod LockView
pub mod Slots
pub mod WaitList
pub mod WaitListView
pub use Rattle.sign_base.specs.Calls
