pub mod Session
pub mod Numbers
pub mod Fit
pub mod Registers
