pub mod Signs
pub mod Lows
