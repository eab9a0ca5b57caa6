pub mod Changes
pub mod Contents
pub mod LeafBytes
pub mod Reading
