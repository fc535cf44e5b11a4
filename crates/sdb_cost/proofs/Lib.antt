pub mod CapLemmas
pub mod HoursLemmas
