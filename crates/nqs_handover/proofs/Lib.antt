pub mod Refusals
pub mod Hops
pub mod Ticks
pub mod Staying
