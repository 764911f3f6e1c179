pub mod Numbers
pub mod Datagrams
pub mod Shepherd
pub mod Asking
pub mod Errand
pub mod Sides
pub mod Exchange
pub mod Client
