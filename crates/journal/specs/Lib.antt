pub mod Runs
pub mod Judging
pub mod Positions
pub mod Verdicts
pub mod Words
