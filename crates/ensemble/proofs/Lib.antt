pub mod Lifts
pub mod Sent
pub mod Told
