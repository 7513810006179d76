-- Facts that the functions' proofs share.
pub mod Beginning
pub mod Growing
pub mod Moving
pub mod Turning
