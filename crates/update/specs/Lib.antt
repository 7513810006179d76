pub mod Update
pub mod View
