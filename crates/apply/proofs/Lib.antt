pub mod Accesses
pub mod Cases
pub mod Unmoved
pub mod Setters
