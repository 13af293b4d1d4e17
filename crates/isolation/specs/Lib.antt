pub mod Windows
pub mod OneRun
pub mod Histories
