mod Kept
mod ShowOutcome
mod Stepping
mod TreeLoad
