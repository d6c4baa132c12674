pub mod Decimals
pub mod Fields
pub mod Grammar
pub mod Kept
pub mod Replies
pub mod Pieces
