pub mod Digits
pub mod Lines
pub mod Page
pub mod Examples
