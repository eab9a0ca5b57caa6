pub mod NameLemmas
pub mod RoomLemmas
pub mod SpellingLemmas
