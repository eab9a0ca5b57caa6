pub mod CrashLemmas
pub mod FileMapLemmas
pub mod NextChange
