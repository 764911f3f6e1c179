pub mod Histories
pub mod Images
pub mod Planned
pub mod Coherence
pub mod Exact
pub mod Known
pub mod Told
pub mod Roses
