pub mod Asked
pub mod Cases
pub mod Raising
pub mod Turns
