pub mod Editions
pub mod Evidence
pub mod Reloads
