mod ReadLemmas
pub mod RecordLaws
pub mod StandsLemmas
mod WriteLemmas
