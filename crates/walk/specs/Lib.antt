pub mod Answers
pub mod Path
pub mod Progress
