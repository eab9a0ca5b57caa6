pub mod Pins
pub mod Endings
pub mod Looking
pub mod Resetting
pub mod Trying
pub mod Setting
pub mod Clearing
