pub mod Lists
pub mod Messages
pub mod Spoken
pub mod Runs
