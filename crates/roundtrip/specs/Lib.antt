pub mod Encode
pub mod Anchors
