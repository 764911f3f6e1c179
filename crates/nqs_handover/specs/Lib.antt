pub mod Opened
pub mod Offers
pub mod Silent
