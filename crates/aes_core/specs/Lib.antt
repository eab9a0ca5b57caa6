pub mod Field
pub mod Aes
pub mod Counter
pub mod Words
