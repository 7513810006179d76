-- Facts that the functions' proofs share.
pub mod Choosing
pub mod Deciding
pub mod Ending
pub mod Keeping
pub mod Matching
pub mod Updating
