pub mod FormatLaws
pub mod LetterLaws
pub mod NumberLaws
pub mod PassingLaws
mod Utf8Lemmas
