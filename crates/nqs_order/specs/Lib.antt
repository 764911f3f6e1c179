pub mod ByIndex
pub mod KeyOrder
pub mod Places
pub mod Waiting
