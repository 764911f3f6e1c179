pub mod Parts
pub mod Bodies
pub mod Spelling
pub mod Values
pub mod Reading
pub mod Messages
pub mod Letters
pub mod Faults
