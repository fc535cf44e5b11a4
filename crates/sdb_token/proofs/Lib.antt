mod ByteLemmas
mod PositionLemmas
mod StripLemmas
pub mod TokenLaws
