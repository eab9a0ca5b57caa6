mod ClientSlots
mod EndingLemmas
mod PartLemmas
