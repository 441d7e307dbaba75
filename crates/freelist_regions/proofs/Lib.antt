-- The laws that this crate's proofs cite.
pub mod Asking
pub mod Cutting
pub mod Halves
pub mod Joining
pub mod Passing
pub mod Renaming
pub mod Settling
pub mod Shapes
pub mod Standing
pub mod Whole
pub mod Seating
