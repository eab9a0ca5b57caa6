pub mod ViewLemmas
pub mod StepLemmas
pub mod CrashLemmas
pub mod SettlingLemmas
pub mod RunLemmas
