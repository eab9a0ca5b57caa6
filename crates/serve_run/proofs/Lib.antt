pub mod Numbers
mod Joined
mod Saying
mod Sharing
mod Ends
mod Opening
