pub mod Pages
pub mod Seen
pub mod Selects
pub mod Spots
