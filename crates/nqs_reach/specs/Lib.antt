pub mod Reach
pub mod Deliveries
pub mod Worked
