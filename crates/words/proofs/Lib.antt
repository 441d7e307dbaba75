-- The laws of this crate, for its own proofs and for the crates above.
pub mod Cells
pub mod Filled
pub mod Moved
pub mod Packed
pub mod Records
