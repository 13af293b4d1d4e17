pub mod Numbered
pub mod Operations
