pub mod Numbers
pub mod Sure
pub mod Options
