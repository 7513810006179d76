pub mod Distances
pub mod Match
pub mod Followed
pub mod View
