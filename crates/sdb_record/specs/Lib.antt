pub mod Entries
pub mod Journals
pub mod Laws
pub mod Records
pub mod Spelling
pub mod Stands
pub mod StandsLaws
