pub mod Courses
pub mod Askings
pub mod Tallies
pub mod JobReceipts
pub mod Servings
pub mod SlotLemmas
