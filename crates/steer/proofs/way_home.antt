-- Facts that the functions' proofs share.
pub mod Deciding
pub mod Fitting
