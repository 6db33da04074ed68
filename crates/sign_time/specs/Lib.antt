pub mod Calendar
pub mod MomentText
pub mod MomentRead
pub mod CivilShown
pub mod Reading
pub mod Law
pub use Rattle.sign_base.specs.Refusal
