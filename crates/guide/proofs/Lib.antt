-- Facts that the functions' proofs share.
pub mod Arriving
pub mod Showing
