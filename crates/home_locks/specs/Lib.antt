pub mod Meanings
pub mod Turns
pub mod Moves
pub mod Accounts
pub mod Closing
pub mod Settled
