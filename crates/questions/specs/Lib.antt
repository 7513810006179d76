pub mod Sure
pub mod Counted
