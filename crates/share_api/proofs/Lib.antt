pub mod FoldLaws
pub mod RunLaws
pub mod StepLaws
pub mod TryLaws
