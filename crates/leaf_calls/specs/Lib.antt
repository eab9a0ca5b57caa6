pub mod Dues
pub mod Calls
