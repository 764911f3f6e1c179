pub mod Orderly
pub mod Picks
pub mod Locals
pub mod Kills
