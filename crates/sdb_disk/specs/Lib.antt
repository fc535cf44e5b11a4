pub mod Disk
pub use Rattle.sdb_base.specs.Causes
pub mod Past
pub mod Memory
pub mod Crash
pub mod FileState
pub mod FileLaws
pub mod MemoryLaws
