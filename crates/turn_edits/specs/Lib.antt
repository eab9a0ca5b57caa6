pub mod Endings
pub mod Stashes
pub mod Sessions
pub mod Reads
