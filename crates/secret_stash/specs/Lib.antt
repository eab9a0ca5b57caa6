pub mod Faults
pub mod Keys
pub mod Edits
pub mod Coding
