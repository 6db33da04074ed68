pub mod Cause
pub mod Answers
pub mod Polls
pub use Rattle.sequential_signer.specs.Deadline
