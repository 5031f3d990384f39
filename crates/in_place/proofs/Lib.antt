pub mod Means
pub mod Closing
pub mod Moves
