pub mod TextLemmas
pub mod LineLemmas
pub mod FileLemmas
pub mod ProfileLemmas
pub mod ReadLemmas
