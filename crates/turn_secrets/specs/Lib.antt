pub mod Opening
pub mod Checked
pub mod Binding
pub mod Passwords
pub mod Mounts
pub mod Listing
