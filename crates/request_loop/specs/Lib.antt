pub mod Lines
pub mod Exchange
pub mod Served
pub mod Cut
pub mod Memory
