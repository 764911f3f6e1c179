pub mod Read
pub mod Heads
pub mod Shapes
pub mod Options
pub mod Lines
pub mod Says
pub mod Faults
pub mod Law
