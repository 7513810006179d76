pub mod Fixes
pub mod Placing
