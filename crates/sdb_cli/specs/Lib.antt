pub mod Commands
pub mod Fed
pub mod Line
pub mod Lines
pub mod Plain
pub mod Standing
pub mod Runs
