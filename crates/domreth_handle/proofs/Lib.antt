pub mod TwoWords
pub mod PartsOwned
pub mod HandleOwned
