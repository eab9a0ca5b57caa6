pub mod Quiet
pub mod Kept
pub mod Rows
pub mod Sounds
