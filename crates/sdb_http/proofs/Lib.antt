pub mod TrimLemmas
mod FieldLemmas
pub mod FrontLemmas
pub mod FeedLemmas
mod LookLemmas
mod InsideLemmas
mod TakeLemmas
mod ReadingLemmas
mod HeadLemmas
