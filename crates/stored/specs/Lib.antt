pub mod Stored
pub mod Fields
pub mod Parts
pub mod Words
pub mod Rebuilt
