pub mod AskedLemmas
pub mod BenchLemmas
pub mod LinesLemmas
pub mod LongLemmas
pub mod RunsLemmas
