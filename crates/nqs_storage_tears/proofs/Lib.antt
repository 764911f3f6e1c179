pub mod TornGates
pub mod TornRoots
