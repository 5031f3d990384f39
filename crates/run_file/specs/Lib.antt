pub mod Texts
pub mod Files
pub mod Steps
pub mod Form
pub mod Numbers
pub mod Outcomes
pub mod Sections
pub mod Unique
