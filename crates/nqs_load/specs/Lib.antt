pub mod Load
pub mod Balance
pub mod Worked
