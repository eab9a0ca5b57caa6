pub mod Delay
pub mod Kept
pub mod Moment
pub mod Schedule
