pub mod FieldLemmas
pub mod ReadLemmas
pub mod StepLemmas
