pub mod Frees
pub mod Returned
