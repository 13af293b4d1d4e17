pub mod Groups
pub mod Counts
