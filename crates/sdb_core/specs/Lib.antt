pub mod Causes
pub mod Inside
pub mod Kept
pub mod Laws
pub mod Ledgers
pub mod Prefix
pub mod Told
