pub mod EditLemmas
pub mod OpeningLemmas
pub mod PlainNames
pub mod NamedLemmas
pub mod NamedCalls
