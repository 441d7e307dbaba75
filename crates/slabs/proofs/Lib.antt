-- The laws of this crate, for its own proofs and for the crates above.
pub mod Links
pub mod Places
pub mod Steps
pub mod Decides
pub mod OffChain
