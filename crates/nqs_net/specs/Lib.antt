pub mod Lists
pub mod Pasts
pub mod Worlds
pub mod Turns
pub mod Followed
pub mod Left
pub mod Deeds
pub mod Least
