pub mod Units
pub mod Shown
pub mod Means
