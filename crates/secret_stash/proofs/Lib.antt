pub mod LiveLemmas
pub mod KeptLemmas
pub mod OpenLaws
