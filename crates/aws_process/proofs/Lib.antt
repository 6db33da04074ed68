pub mod CommandLemmas
pub mod ProfileLemmas
