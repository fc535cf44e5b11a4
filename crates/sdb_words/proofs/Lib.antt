pub mod TakenLemmas
