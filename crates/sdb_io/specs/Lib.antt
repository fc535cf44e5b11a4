-- Definitions of causes, which the contracts here cite.
pub use Rattle.sdb_base.specs.Causes
pub mod Clock
pub mod Links
pub mod Memory
pub mod MemoryLinks
pub mod Playback
