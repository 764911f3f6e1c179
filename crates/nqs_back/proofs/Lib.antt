pub mod Counts
pub mod Over
pub mod Lowered
pub mod Plans
