pub mod Fields
pub mod Puts
pub mod Takes
pub mod Laws
