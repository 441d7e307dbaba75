-- The laws that this crate's proofs cite.
pub mod Lying
pub mod Passing
pub mod Turning
pub mod Decides
pub mod Reading
pub mod Piecing
pub mod Stepping
pub mod Going
