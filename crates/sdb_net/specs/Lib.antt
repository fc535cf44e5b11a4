pub mod Connections
pub mod Idle
pub mod Tcp
