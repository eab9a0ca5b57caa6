pub mod Devices
pub mod LeafCalls
pub mod Recovery
pub mod Clean
