-- The laws that this crate's proofs and those above cite.
pub mod Finding
pub mod Fronts
pub mod Leaving
pub mod Marking
