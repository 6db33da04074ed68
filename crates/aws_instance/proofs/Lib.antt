pub mod AskedLemmas
pub mod StepLemmas
