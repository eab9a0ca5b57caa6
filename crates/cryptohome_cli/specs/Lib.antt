pub mod Streams
pub mod Paths
pub mod Fresh
