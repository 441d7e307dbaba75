-- The laws of this crate's calls, for its own proofs.
pub mod Branches
