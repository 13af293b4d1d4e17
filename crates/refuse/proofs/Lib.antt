pub mod Accepted
pub mod Room
pub mod Order
