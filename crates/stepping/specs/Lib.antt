pub mod Stepping
pub mod Cases
