pub mod Answer
pub mod Syscall
