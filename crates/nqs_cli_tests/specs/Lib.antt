pub mod Told
pub mod Machine
pub mod NextRun
