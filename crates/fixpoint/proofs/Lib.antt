pub mod Differences
pub mod Overlays
pub mod Settles
pub mod Writing
