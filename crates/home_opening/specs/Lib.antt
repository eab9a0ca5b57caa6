pub mod Locks
pub mod Numbers
pub mod Opened
