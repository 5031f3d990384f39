pub mod Reads
pub mod Parts
pub mod State
