pub mod Notes
pub mod Trail
pub mod View
pub mod Inner
