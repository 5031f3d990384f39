pub mod Parts
pub mod Forms
pub mod Tokens
pub mod Takes
