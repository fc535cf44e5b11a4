pub mod Differences
pub mod Escapes
pub mod Orders
pub mod Queries
pub mod Rising
pub mod Verdicts
