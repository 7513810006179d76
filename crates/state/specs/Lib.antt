pub mod State
pub mod Rule
pub mod Guide
