mod Starting
mod Lines
mod Lists
mod Sane
pub mod Acts
pub mod Folds
mod Emptied
mod Sendable
pub mod Ending
mod Known
mod Tellings
mod Keeping
mod Passing
mod Leaving
pub mod Moments
mod Sorting
mod Gathers
mod Hearing
mod Sampled
