pub mod BlockLemmas
pub mod StandardFacts
