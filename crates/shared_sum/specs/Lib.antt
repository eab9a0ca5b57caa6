pub mod Summed
pub mod Callers
