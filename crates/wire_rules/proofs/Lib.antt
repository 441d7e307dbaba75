-- The laws of these definitions, for the code's proofs and for the crates above.
pub mod Flags
pub mod Settled
pub mod Told
pub mod Heaps
pub mod Orders
pub mod Again
pub mod Shares
pub mod Lent
