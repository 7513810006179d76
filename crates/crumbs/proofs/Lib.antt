pub mod Crumbs
pub mod Choices
pub mod Fronts
pub mod Lengths
