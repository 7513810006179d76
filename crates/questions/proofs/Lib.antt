pub mod Exact
pub mod Counted
pub mod Asking
pub mod Given
