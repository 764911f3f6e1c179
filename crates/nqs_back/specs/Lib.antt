pub mod Back
pub mod Bare
