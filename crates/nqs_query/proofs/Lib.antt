pub mod Names
pub mod Texts
pub mod Lines
pub mod Stats
pub mod Deletes
