pub mod Open
pub mod Ending
