pub mod Bytepick
pub mod Field
