pub mod Lows
pub mod Peers
