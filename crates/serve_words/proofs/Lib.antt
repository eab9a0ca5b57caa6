pub mod Numbers
pub mod Names
pub mod OptionWords
pub mod Spelling
mod Bounds
