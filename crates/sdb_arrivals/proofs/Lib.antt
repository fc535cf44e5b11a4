pub mod AlikeLemmas
mod ArrivingLemmas
mod ChangingLemmas
mod CountingLemmas
mod EntryLemmas
pub mod FollowingLemmas
pub mod StandingLemmas
mod StillLemmas
mod ReadLemmas
mod ReleasingLemmas
mod TableLemmas
mod TakingLemmas
