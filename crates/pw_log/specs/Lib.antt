pub mod Entry
pub mod Pair
pub mod Entries
