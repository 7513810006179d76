pub mod Plane
pub mod Fix
pub mod Globe
pub mod Square
