pub mod Acts
pub mod Coming
pub mod Sending
pub mod Serving
pub mod Stepping
pub mod Hosting
