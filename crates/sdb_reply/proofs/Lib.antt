pub mod DigitsLemmas
pub mod EscapeLemmas
pub mod FaultLemmas
pub mod FramedLemmas
pub mod LoopLemmas
