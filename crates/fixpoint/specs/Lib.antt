pub mod Rests
pub mod Sets
