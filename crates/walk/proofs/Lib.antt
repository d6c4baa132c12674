mod Above
mod Operands
mod Stack
