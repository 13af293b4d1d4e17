pub mod Numbers
pub mod Stands
pub mod Joined
mod Parts
