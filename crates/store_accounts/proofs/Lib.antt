-- The laws of this crate's definitions, for its own proofs.
pub mod Settling
