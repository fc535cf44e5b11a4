pub mod Described
pub mod Gets
pub mod Listing
pub mod Outcome
pub mod Selecting
