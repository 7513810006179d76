pub mod Fix
pub mod Course
pub mod View
