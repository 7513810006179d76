pub mod Pass
pub mod Lap
