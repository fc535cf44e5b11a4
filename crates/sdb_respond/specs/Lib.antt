pub mod Judging
pub mod Order
pub mod Reply
pub mod Staged
