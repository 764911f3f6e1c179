pub mod Chosen
pub mod Says
