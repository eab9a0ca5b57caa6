mod Apart
mod Begun
mod Dealing
mod DeviceLemmas
mod Failures
mod Kept
mod Stopping
mod Whole
