pub mod Parts
pub mod Fates
pub mod Burns
pub mod Roots
pub mod Stops
pub mod Wholes
pub mod Coming
pub mod Turning
pub mod Fronts
pub mod Following
pub mod Starting
pub mod Hosting
mod Leaving
mod Showing
mod Founding
mod Placing
mod Means
mod Ordered
mod Finishing
mod Fusing
mod Arriving
