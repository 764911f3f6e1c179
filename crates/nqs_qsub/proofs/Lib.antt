pub mod Lines
pub mod Gives
pub mod Words
pub mod Said
pub mod Placed
