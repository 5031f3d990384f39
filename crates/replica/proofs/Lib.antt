pub mod Indices
pub mod Same
pub mod Steps
pub mod Refused
pub mod Ran
pub mod Finishing
pub mod Updates
pub mod Made
