pub mod Hmac
pub mod Sealed
pub mod Wires
pub mod Keys
pub mod Caller
