pub mod Dealing
pub mod PoolLists
pub mod PoolLaw
