pub mod Kept
pub mod Journal
pub mod Claim
