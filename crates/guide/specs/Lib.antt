pub mod Guide
pub mod View
pub mod Goal
pub mod Near
