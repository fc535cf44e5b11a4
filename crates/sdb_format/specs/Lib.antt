pub mod Format
pub mod Laws
pub mod Letters
pub mod Numbers
pub mod Readers
