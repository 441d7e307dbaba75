-- What the walk down a chunk reads, and what it and the test of a chunk answer at each turn.
pub mod Shows
pub mod Downs
pub mod Tops
