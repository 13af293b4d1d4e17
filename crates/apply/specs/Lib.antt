pub mod Machine
pub mod Apply
