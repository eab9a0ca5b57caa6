pub mod Turns
pub mod Output
pub mod Grown
pub mod Books
pub mod Seats
