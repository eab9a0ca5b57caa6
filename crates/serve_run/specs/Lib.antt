pub mod Outside
pub mod Left
pub mod Says
pub mod Histories
pub mod Begun
pub mod Serving
pub mod Run
