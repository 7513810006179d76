-- Facts that the functions and the theorems of this crate share.
pub mod Signed
mod Segment
pub mod Place
pub mod Places
pub mod Theorems
pub mod Starred
