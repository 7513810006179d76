-- Facts that the functions' proofs share.
pub mod Choosing
mod Joining
pub mod Sharing
pub mod Searching
pub mod Theorems
pub mod Walking
