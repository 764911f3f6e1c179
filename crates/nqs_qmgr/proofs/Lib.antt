pub mod Means
pub mod Said
pub mod Shapes
pub mod Fails
pub mod Faulted
pub mod Decided
pub mod Table
