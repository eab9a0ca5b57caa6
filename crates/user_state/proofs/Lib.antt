pub mod RowLemmas
pub mod OutlineLemmas
