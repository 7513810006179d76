pub mod Walk
pub mod Promises
pub mod History
pub mod Taken
