pub mod Listed
pub mod RowLaws
pub mod Saying
pub mod Tails
pub mod Choosing
pub mod Moments
pub mod Single
