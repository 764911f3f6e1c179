pub mod Time
pub mod Size
