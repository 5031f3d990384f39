pub mod Fronts
pub mod FirstWords
pub mod RoundTrip
