pub mod Taking
pub mod Buffers
pub mod Answers
pub mod Lines
pub mod Owners
