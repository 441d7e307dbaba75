-- The laws of this crate, for its own proofs and for the crates above.
pub mod Rings
pub mod Keeps
pub mod Linking
pub mod Steps
pub mod Decides
