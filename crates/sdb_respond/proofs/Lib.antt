pub mod FirstLemmas
pub mod OrderLemmas
pub mod OutcomeLemmas
pub mod ReadLemmas
pub mod SpelledLemmas
pub mod StagedLemmas
