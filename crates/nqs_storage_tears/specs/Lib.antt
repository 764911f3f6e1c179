pub mod Gates
pub mod Roots
