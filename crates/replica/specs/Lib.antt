pub mod Meanings
pub mod Calls
pub mod Refusals
pub mod Outcomes
pub mod Transactions
pub mod Words
