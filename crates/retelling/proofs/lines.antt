mod Writing
pub mod Numbers
mod Lengths
