pub mod Twins
pub mod Steps
pub mod Isolated
pub mod Along
