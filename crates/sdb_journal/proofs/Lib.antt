pub mod AppendLemmas
mod CreateLemmas
mod CursorLemmas
pub mod HeadLemmas
pub mod LookLemmas
pub mod RestLemmas
mod WindowLemmas
