-- Which types may hold the type that holds them.
pub mod boxed
pub mod list
