pub mod Moves
pub mod Acts
