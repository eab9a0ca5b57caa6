pub mod Seats
pub mod Deriving
