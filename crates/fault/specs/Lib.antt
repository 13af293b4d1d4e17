pub mod Differ
pub mod Fault
