pub mod Search
pub mod Rounds
pub mod Successors
pub mod Paths
pub mod Truth
