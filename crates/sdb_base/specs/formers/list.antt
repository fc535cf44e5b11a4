-- Lists as formers.
pub mod List
