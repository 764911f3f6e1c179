pub mod Text
pub mod Either
pub mod Faults
pub mod Plan
pub mod Gate
pub mod Opened
pub mod Open
pub mod Laws
