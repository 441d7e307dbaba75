pub mod Slab
pub mod Test
