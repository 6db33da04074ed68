pub mod Polled
pub mod Operation
pub mod Chain
pub mod Unsupported
pub mod Env
pub mod Home
pub mod Context
pub mod Law
