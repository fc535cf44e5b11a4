pub mod Frames
pub mod Kept
pub mod Laws
pub mod Opened
pub mod Small
pub mod Synced
