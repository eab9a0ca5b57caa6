pub mod Field128
pub mod Ghash
pub mod Gcm
pub mod Horner
pub mod Sizes
