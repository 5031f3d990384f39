pub mod Noted
pub mod Messages
