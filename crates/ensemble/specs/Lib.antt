pub mod Whole
pub mod Making
pub mod Asking
pub mod Sending
