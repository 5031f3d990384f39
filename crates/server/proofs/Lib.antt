pub mod Rowwise
pub mod Settling
pub mod Acting
pub mod Arriving
pub mod Handling
pub mod Delivery
