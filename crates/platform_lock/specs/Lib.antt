pub mod Devices
pub mod Answers
pub mod Seats
pub mod SameShare
