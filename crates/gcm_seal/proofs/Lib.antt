pub mod BitRule
pub mod Linear
pub mod HornerRule
pub mod GhashLemmas
pub mod GcmLemmas
pub mod StandardVectors
