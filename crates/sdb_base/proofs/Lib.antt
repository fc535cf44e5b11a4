pub mod Cases
pub mod CauseLemmas
pub mod DecimalLemmas
pub mod EntryLemmas
pub mod KeyLemmas
pub mod NameLemmas
pub mod OptionLemmas
pub mod PairsLemmas
mod StepsWalks
