pub mod Slots
pub mod Nodes
pub mod Extents
pub mod Faults
pub mod Live
pub mod Puts
pub mod Spooled
