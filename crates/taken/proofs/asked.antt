-- Whatever lines a guide was lent, a state that passes question 10 passes it after `replay` and `reset` too.
pub mod Bounds
pub mod Recording
pub mod State
pub mod Measured
pub mod Asked
