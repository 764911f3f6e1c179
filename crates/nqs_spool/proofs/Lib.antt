mod Rows
pub mod Lists
mod Kept
mod Reading
mod Writing
mod Putting
