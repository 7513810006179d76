pub mod Made
pub mod Rebuild
pub mod Inner
pub mod View
