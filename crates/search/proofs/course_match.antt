-- Facts that the functions' proofs share.
pub mod Gaps
pub mod Theorems
