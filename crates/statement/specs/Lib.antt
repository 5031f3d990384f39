pub mod Operations
pub mod Making
pub mod Words
