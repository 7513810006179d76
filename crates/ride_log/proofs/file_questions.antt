pub mod Chain
mod Asking
pub mod Theorems
pub mod Slots
