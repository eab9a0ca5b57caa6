mod IdleLemmas
mod AnswerLemmas
mod NameLemmas
mod MadeLemmas
pub mod LedLemmas
