pub mod Refusals
pub mod Call
pub mod Loading
