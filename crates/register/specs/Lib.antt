pub mod Books
pub mod Answers
pub mod Shows
pub mod Loads
pub mod Walking
