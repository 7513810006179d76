pub mod GuideWords
pub mod Answers
