pub mod Answers
pub mod Decoding
pub mod Firsts
pub mod Params
pub mod Plains
pub mod Repeats
