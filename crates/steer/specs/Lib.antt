pub mod View
pub mod Decides
