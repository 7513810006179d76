pub mod Entry
pub mod Chain
pub mod Questions
pub mod Theorems
