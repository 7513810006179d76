-- Facts that the functions' proofs share.
pub mod Engaging
pub mod Holding
pub mod Recording
