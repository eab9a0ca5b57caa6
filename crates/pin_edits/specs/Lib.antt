pub mod Faults
pub mod Writes
pub mod Refusals
pub mod Tries
pub mod Resets
pub mod Pins
