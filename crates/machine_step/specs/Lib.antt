pub mod Done
pub mod Timely
