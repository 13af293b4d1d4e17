pub mod Words
pub mod Apart
pub mod Enumerated
pub mod RoundTrip
