pub mod HashLengths
pub mod LongKeys
pub mod Masking
