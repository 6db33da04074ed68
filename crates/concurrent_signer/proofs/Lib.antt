pub mod Adding
pub mod EmptyHistory
