pub mod Crumb
pub mod Questions
pub mod Promises
pub mod Theorems
pub mod Bounds
pub mod Rows
pub mod Inner
