pub mod Outlines
pub mod Fits
pub mod SameOutline
pub mod Turns
pub mod Sound
