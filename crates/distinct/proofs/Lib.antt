-- The laws of counts and of lists in order, for the crates above, and those that the sort's proofs lean on.
pub mod Counts
pub mod Order
pub mod Merging
pub mod Filling
pub mod Fours
pub mod Going
