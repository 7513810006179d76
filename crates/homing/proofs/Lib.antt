-- Facts that the functions' proofs share.
pub mod Calling
pub mod Making
