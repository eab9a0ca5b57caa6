pub mod NameLemmas
pub mod ZeroByte
