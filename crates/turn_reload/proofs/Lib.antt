pub mod EditionLemmas
pub mod EvidenceLemmas
pub mod ReloadLemmas
