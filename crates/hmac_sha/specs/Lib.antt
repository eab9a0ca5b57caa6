pub mod Hmac
pub mod Pieces
pub mod Pbkdf2
