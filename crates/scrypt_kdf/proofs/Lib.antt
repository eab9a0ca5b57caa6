pub mod PowerLemmas
pub mod PartLemmas
pub mod RoundLemmas
pub mod MixLemmas
pub mod StandardFacts
pub mod KeyLemmas
