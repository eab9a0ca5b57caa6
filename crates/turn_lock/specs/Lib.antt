pub mod Lists
pub mod Seats
pub mod Rule
pub mod Slots
pub mod Steps
pub mod Insides
pub mod Lending
