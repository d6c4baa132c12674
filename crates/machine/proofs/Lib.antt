mod BelowTests
mod Decoding
mod Successors
mod Arrays
