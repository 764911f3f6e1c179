pub mod Names
pub mod Steps
pub mod Seconds
pub mod Requests
pub mod Missing
