pub mod Asked
pub mod Coding
pub mod Ready
pub mod Told
pub mod Parts
pub mod Recovered
pub mod Settled
