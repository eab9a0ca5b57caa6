pub mod OpeningLemmas
pub mod SizeLemmas
