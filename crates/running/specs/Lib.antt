pub mod Run
pub mod Call
pub mod Starred
pub mod Counted
pub mod Edges
