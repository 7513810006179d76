pub mod Answering
pub mod Performing
pub mod Riding
pub mod Covers
