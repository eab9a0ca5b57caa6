pub mod NameLemmas
pub mod CallLemmas
pub mod ShownLemmas
pub mod StorableLemmas
pub mod OneLemmas
pub mod AnswerLemmas
pub mod RecoveryLemmas
pub mod FileLemmas
