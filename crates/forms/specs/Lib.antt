pub mod Refusals
pub mod Forms
pub mod Sets
pub mod Meaning
pub mod Tables
pub mod Bodies
pub mod Loading
pub mod Places
