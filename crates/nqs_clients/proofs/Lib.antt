pub mod Waiting
pub mod Hearing
pub mod Sending
pub mod Lengths
pub mod Telling
pub mod Ending
