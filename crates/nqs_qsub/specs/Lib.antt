pub mod Tokens
pub mod Options
pub mod Script
pub mod Qsub
pub mod Says
pub mod Faults
pub mod Law
