pub mod Joining
pub mod OpeningParts
pub mod SecretLaws
pub mod BookSecrets
mod FaultLemmas
mod WordLemmas
