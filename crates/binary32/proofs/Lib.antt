-- `root` is the nearest value of its format: what `halves` compares with, where `root_of` rounds to, and the theorems.
pub mod Sides
pub mod Closest
pub mod Rounded
pub mod Nearest
-- `root` at some bit patterns.
mod Examples
-- the library's root is `root`
mod Library
pub mod Casting
pub mod magnitude
pub mod roots
