pub mod Window
pub mod Rules
pub mod Theorems
pub mod Tracks
pub mod Recording
