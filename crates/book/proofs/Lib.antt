-- The laws of this crate, for its own proofs and for the crates above.
pub mod Entering
pub mod Striking
pub mod Taking
