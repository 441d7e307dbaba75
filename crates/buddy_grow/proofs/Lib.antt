-- What the code that makes levels shows.
pub mod Grown
