pub mod Facts
pub mod Texts
pub mod Moments
pub mod Dates
