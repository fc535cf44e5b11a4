pub mod CallLemmas
mod ClosingLemmas
mod LinksLemmas
mod MemoryLemmas
mod PlaybackLemmas
