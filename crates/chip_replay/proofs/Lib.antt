pub mod UndoLemmas
pub mod BuildLemmas
pub mod ReplayLemmas
