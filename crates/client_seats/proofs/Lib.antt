mod ListLemmas
mod DealingLemmas
mod GatheringLemmas
