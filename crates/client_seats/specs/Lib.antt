pub mod Clients
pub mod Dealing
pub mod Gathering
