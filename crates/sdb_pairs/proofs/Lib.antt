pub mod AgreeLemmas
pub mod EditLemmas
pub mod FewLemmas
pub mod PairLemmas
pub mod PartLemmas
pub mod RebuildLemmas
pub mod SettleLemmas
pub mod StateLemmas
