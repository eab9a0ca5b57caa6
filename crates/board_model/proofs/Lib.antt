pub mod Effects
pub mod Names
