pub mod RowLemmas
pub mod Maps
pub mod MappedLemmas
