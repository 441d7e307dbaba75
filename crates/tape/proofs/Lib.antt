-- The laws of this crate's definitions, for its own proofs and for the crates above.
pub mod Headers
