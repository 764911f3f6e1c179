pub mod Destination
pub mod Low
