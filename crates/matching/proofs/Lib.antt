-- Facts that the functions' proofs share.
pub mod Choosing
pub mod Nearing
pub mod Minimum
pub mod Lines
