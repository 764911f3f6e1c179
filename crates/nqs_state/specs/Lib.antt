pub mod State
pub mod Keys
pub mod Kept
pub mod Least
pub mod Room
