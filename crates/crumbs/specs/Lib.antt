pub mod Crumb
pub mod Line
pub mod Choice
pub mod Along
pub mod Length
pub mod Inner
pub mod Bounds
