pub mod Along
pub mod Course
pub mod Search
pub mod Theorems
pub mod CourseMatch
pub mod Square
pub mod Rows
