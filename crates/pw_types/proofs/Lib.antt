pub mod DelayLemmas
pub mod ScheduleLemmas
