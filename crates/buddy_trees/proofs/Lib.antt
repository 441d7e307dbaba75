-- What follows from the definitions of trees.
pub mod Bytes
pub mod Canon
pub mod Canonical
pub mod Ending
pub mod Filling
pub mod Fills
pub mod Onces
pub mod Pieces
pub mod Plants
pub mod Prunes
pub mod Rooms
pub mod Serving
