-- Facts that the functions' proofs share, and theorems about the rules.
pub mod Walking
pub mod Slots
pub mod Stepping
pub mod Calling
pub mod History
pub mod Taken
