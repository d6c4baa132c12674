pub mod Outcomes
pub mod BookLines
mod Growing
pub mod Marks
mod Successors
pub mod Keeping
mod Shown
mod Lines
mod Brought
mod Taken
pub mod Kept
pub mod Loads
