pub mod Shifts
pub mod Signs
pub mod Extends
