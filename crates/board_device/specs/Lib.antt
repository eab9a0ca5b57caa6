pub mod Device
pub mod Idle
pub mod Standing
pub mod Begins
pub mod Coding
