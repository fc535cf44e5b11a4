pub mod Answer
pub mod File
pub mod Hmac
pub mod Keys
pub mod Reading
pub use Rattle.bstr.specs.Text
