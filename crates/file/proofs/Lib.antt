pub mod Lengths
pub mod Walk
pub mod There
pub mod Back
pub mod RoundTrip
pub mod Edges
pub mod Order
pub mod Examples
