pub mod Feeds
pub mod Gathering
pub mod Pieces
pub mod Standing
