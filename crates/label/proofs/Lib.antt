pub mod Bitwise
pub mod Columns
pub mod AnyAndAll
pub mod Labels
pub mod Marks
pub mod Lists
