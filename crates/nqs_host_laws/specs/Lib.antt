pub mod Reads
pub mod Offers
