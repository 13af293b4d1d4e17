pub mod Count
pub mod Reverse
pub mod Unary
