pub mod Model
pub mod Formula
pub mod Meaning
pub mod Search
pub mod Rounds
pub mod Truth
