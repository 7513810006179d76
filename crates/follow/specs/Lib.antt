pub mod Engage
pub mod Record
pub mod View
pub mod Parts
