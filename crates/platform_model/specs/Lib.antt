pub mod Views
pub mod Steps
pub mod Crashes
pub mod Settling
pub mod Runs
