pub mod Table
pub mod Families
pub mod Decode
pub mod Found
