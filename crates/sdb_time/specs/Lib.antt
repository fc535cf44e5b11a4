pub mod Moments
pub mod Parts
pub mod Reading
pub mod Stamps
pub use Rattle.jiff_core.specs.Calendar
