pub mod DescribedLemmas
pub mod GetLemmas
pub mod ListingLemmas
pub mod OutcomeLemmas
pub mod SelectingLemmas
