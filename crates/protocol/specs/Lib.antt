pub mod State
pub mod Bodies
pub mod Calls
pub mod Runs
pub mod Promises
pub mod Invariant
