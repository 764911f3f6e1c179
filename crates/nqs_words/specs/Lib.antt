pub mod Words
pub mod Keywords
pub mod Values
pub mod Quoted
pub mod Amounts
pub mod Moments
pub mod Spelled
