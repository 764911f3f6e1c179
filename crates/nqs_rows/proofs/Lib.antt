pub mod Refusals
pub mod Named
mod Offers
