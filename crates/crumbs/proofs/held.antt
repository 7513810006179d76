-- Facts that the methods' proofs share.
mod Ends
