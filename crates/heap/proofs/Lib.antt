-- The laws of totals and of a heap's history, for this crate's proofs and for the crates above.
pub mod Totals
pub mod Bounds
pub mod History
pub mod Stays
