pub mod Ids
pub mod RowStates
pub mod Scripts
