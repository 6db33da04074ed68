pub mod ChainLemmas
pub mod ChainLaws
pub mod Variables
pub mod Tildes
