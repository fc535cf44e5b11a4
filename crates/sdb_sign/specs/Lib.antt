pub mod Canon
pub mod Claims
pub mod Fresh
pub mod Signing
pub use Rattle.sdb_keys.specs.Hmac
pub use Rattle.sdb_keys.specs.Keys
pub use Rattle.sdb_time.specs.Moments
