pub mod Moment
pub mod Parts
pub mod Laws
