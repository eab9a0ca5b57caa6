pub mod RecallLemmas
pub mod NumberLemmas
pub mod KnownLemmas
mod OpenedLemmas
mod ClosingLemmas
