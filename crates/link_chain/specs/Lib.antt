pub mod Stack
pub mod Link
pub mod Lending
