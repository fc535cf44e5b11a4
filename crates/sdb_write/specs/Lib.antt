pub mod Changes
pub mod Checks
pub mod Expectation
pub mod ItemWrites
pub mod Laws
pub mod Limits
pub mod Totals
pub mod Writes
