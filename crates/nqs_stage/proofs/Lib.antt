pub mod Numbers
pub mod Next
pub mod Ticked
