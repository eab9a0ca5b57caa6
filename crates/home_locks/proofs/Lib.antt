mod AccountLemmas
mod ClosingLemmas
mod SettleLemmas
