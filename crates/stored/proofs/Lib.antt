pub mod Holding
pub mod ReadBack
pub mod Storing
pub mod Placing
