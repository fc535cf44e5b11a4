pub mod Feeds
pub mod Heads
pub mod Inside
pub mod Layouts
pub mod Messages
pub mod Responses
