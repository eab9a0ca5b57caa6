pub mod Showing
pub mod Paths
pub mod Doubt
