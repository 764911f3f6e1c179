pub mod Keeping
pub mod Next
