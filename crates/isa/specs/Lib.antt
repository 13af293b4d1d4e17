pub mod Format
pub mod Operands
