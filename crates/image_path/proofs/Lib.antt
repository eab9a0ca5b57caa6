pub mod PathLemmas
pub mod ChainLemmas
pub mod StandLemmas
pub mod RecoveryLemmas
pub mod DoubtLemmas
