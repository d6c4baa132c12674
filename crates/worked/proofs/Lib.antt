mod Marked
mod Walked
mod Offsets
mod Empty
