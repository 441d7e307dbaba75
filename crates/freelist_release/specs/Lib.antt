pub mod Frees
pub mod Listed
pub mod Spared
