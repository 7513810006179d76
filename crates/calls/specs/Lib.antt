pub mod Ask
pub mod Fix
pub mod Follow
pub mod Line
pub mod Questions
pub mod Calls
pub mod Promises
