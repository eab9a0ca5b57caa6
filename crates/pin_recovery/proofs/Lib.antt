pub mod LeafLemmas
pub mod BehindLemmas
pub mod AtomicLemmas
pub mod OpeningLemmas
pub mod FollowLemmas
pub mod ReplyLemmas
pub mod CleanLemmas
pub mod ToldLemmas
