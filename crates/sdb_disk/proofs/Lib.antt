pub mod CallLemmas
pub mod PatchLemmas
mod OverlayLemmas
mod ChangeLemmas
mod ContentLemmas
mod AnswerLemmas
mod CrashLemmas
