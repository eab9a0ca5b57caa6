pub mod Loops
pub mod RowLoops
pub mod Rising
pub mod ReadAgain
pub mod StashAgain
pub mod Rows
pub mod SizeLemmas
