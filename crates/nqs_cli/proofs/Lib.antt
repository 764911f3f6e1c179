pub mod Using
pub mod Wanting
pub mod Serving
pub mod Callers
