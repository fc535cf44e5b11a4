pub mod Complete
pub mod Endings
pub mod Events
pub mod Keyed
pub mod Laws
pub mod Records
pub mod Running
pub mod Shown
