pub mod Segment
pub mod Square
pub mod Turn
pub mod CostConstants
pub mod Cost
pub mod Inner
