pub mod Bodies
pub mod Digits
pub mod Elements
pub mod Escape
pub mod Faults
pub mod Pieces
pub mod Results
