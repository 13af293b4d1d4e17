pub mod Format
pub mod Writing
pub mod Reading
pub mod Edges
pub mod Promises
pub mod Examples
