pub mod Cutting
pub mod Serving
mod Queueing
pub mod Taking
pub mod Giving
pub mod Ends
pub mod Rows
