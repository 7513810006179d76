-- Facts that the functions' proofs share.
mod Considering
pub mod Ranging
