pub mod Gates
pub mod Held
pub mod Kept
