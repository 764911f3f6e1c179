pub mod Closed
pub mod Fresh
pub mod Joined
pub mod Places
pub mod Losses
pub mod Refused
pub mod Running
pub mod Booted
