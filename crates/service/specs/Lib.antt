pub mod Kept
pub mod Files
pub mod Taking
pub mod Meaning
pub mod View
