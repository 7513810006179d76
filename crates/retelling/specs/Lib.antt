pub mod Retold
pub mod Told
pub mod Text
pub mod Writing
