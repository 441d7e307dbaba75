-- The laws of this crate's definitions, for its own proofs and for the crates above.
pub mod Deliveries
pub mod Comes
pub mod Wholes
