pub mod Told
pub mod Opened
pub mod Tags
pub mod Same
pub mod Keys
pub mod Typed
