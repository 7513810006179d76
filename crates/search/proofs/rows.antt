-- Facts that the functions' proofs share.
mod Filling
mod Fronting
