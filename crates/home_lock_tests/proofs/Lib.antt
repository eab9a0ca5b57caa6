mod LookLemmas
mod NoNames
mod RecordLemmas
