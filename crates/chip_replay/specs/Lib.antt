pub mod Records
pub mod Carrying
pub mod Replaying
