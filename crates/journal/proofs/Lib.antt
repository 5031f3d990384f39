pub mod Summaries
pub mod Fronts
pub mod Earlier
