-- What follows from what is done to a level.
pub mod Bounds
pub mod Reading
pub mod Standing
pub mod Steps
pub mod Turns
