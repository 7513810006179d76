pub mod Copying
pub mod Limits
pub mod Narrowing
pub mod Fitting
pub mod Same
