pub mod Opening
pub mod Sealing
pub mod OpeningSealed
