pub mod Escapes
pub mod Pairs
mod Reading
pub mod Replying
pub mod Tokens
