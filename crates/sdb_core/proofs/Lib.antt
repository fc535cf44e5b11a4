mod CommitLemmas
mod EventLemmas
mod FillLemmas
pub mod FindLemmas
mod LawLemmas
pub mod PrefixLemmas
mod StepLemmas
pub mod StoryLemmas
