pub mod Sums
pub mod Counts
mod Entries
mod Stages
mod Changes
mod Drawing
mod Taking
mod Passing
mod Splitting
mod Joining
mod Opening
mod Closing
pub mod Views
