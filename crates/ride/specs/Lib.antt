pub mod Script
pub mod Promises
pub mod Theorems
pub mod Inner
