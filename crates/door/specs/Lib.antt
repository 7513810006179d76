pub mod Thin
pub mod Calls
pub mod Rebuild
pub mod GuideWords
pub mod Answers
pub mod Through
