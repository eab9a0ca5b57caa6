pub mod Era
pub mod Fails
pub mod Failing
pub mod Logs
pub mod Mem
pub mod Leaves
pub mod Held
pub mod Counts
