pub mod ClosedLemmas
pub mod IdleLemmas
