pub mod Callers
pub mod Forms
pub mod Parts
pub mod Formats
pub mod Daemons
pub mod Runs
pub mod Ends
pub mod Keys
