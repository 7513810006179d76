-- Facts that the functions' proofs share.
pub mod Ending
pub mod Nearing
