mod ClosedLemmas
mod CommitLemmas
mod FrameLemmas
mod KeptLemmas
mod OpenLemmas
pub mod SmallLemmas
mod SyncLemmas
