pub mod Number
pub mod Dates
