pub mod Answer
pub mod Form
pub mod Plain
pub use Rattle.form_urlencoded.specs.Form as Pieces
