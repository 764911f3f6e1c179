pub mod Steps
pub mod Options
pub mod Submissions
mod Named
pub mod Edits
pub mod Questions
pub mod Schedules
pub mod Generated
