pub mod Accepting
pub mod Chunks
pub mod Formed
mod Joining
pub mod Numbering
pub mod Places
pub mod Reading
mod Records
pub mod SetsWithin
