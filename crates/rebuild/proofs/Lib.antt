-- Facts that the functions' proofs share, and theorems about the rules.
pub mod Performing
pub mod Making
mod Visiting
pub mod Keeping
pub mod Theorems
pub mod Counting
pub mod Starred
