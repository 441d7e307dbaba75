pub mod Chunks
pub mod Trees
