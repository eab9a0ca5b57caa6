pub mod AcceptedLemmas
pub mod Cases
pub mod ChangeLemmas
pub mod FieldLemmas
pub mod ReadLemmas
pub mod RecordLemmas
