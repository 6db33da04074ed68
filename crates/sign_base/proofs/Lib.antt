pub mod Truth
pub mod Calls
pub mod Styled
