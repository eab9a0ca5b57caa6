pub mod DamageLemmas
pub mod ActLemmas
