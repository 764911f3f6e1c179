pub mod Failures
pub mod Told
pub mod Wire
pub mod Launcher
pub mod Printer
pub mod Outlet
pub mod Runner
pub mod Clock
