pub mod Asked
pub mod Started
