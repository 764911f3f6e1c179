pub mod Accounts
pub mod Ends
pub mod Lost
pub mod Marks
pub mod Missing
pub mod Names
pub mod Owners
pub mod Shortages
