pub mod Insertion
pub mod ByRequest
pub mod Stands
pub mod Taken
