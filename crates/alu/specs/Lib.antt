pub mod Alu
pub mod Immediate
pub mod Upper
pub mod Alsl
