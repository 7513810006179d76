-- What rounding, the operations, a root, `clamp` and the tests do to the size and the sign of a value.
pub mod Size
pub mod Round
pub mod Laws
pub mod Units
pub mod Between
pub mod Shares
pub mod Signs
pub mod Tests
pub mod Roots
pub mod More
