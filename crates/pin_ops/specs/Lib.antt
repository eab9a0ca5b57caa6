pub mod Following
pub mod Resyncing
