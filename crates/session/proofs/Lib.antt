pub mod Fits
pub mod Different
pub mod Notes
