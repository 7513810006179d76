pub mod Join
pub mod Retrace
