pub mod Contents
pub mod Folds
pub mod Places
pub mod Steps
pub mod Seen
pub mod Replies
pub mod Conditions
pub use Rattle.record_names.specs.Names
