pub mod KindsApart
