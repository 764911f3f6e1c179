pub mod Orders
pub mod Fronts
pub mod Balances
pub mod Least
