pub mod Constants
pub mod Magnitude
pub mod Starred
