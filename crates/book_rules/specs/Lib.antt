pub mod Book
pub mod Chains
pub mod Kept
pub mod Ready
pub mod Returns
