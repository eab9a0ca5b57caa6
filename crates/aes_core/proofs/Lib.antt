pub mod TableRules
pub mod ColumnLemmas
pub mod RoundLemmas
pub mod ScheduleLemmas
pub mod StreamLemmas
pub mod StandardVectors
