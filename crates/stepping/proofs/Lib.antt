pub mod Adding
pub mod Lengths
