pub mod Kept
pub mod Early
