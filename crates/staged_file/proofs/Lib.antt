pub mod Puts
pub mod Removals
pub mod Staging
