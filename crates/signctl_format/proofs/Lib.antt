pub mod Calls
pub mod Forms
pub mod Grammars
pub mod Spellings
pub mod PlainEvents
pub mod SetupIn
