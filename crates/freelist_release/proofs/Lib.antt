-- The laws that this crate's proofs cite.
pub mod Freeing
pub mod Keeping
pub mod Listing
pub mod Releasing
pub mod Sounds
pub mod Sparing
pub mod Staying
pub mod Turns
