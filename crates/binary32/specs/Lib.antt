pub mod Arithmetic
pub mod Root
pub mod Nearest
pub mod Casts
pub mod Limits
pub mod Inner
