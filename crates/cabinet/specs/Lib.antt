pub mod Edits
pub mod Names
pub mod Named
pub mod Held
pub mod Faults
pub mod Opening
pub mod OpenFaults
