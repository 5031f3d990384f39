pub mod Counts
pub mod Outcomes
pub mod Shown
pub mod Looking
pub mod Acting
