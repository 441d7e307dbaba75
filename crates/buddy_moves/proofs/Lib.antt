-- What follows from the moves, for the code.
pub mod Backing
pub mod Footings
pub mod Lending
pub mod Moved
pub mod Rooming
pub mod Serving
pub mod Sizing
