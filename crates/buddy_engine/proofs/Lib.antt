-- The buddy is an engine.
pub mod Stepping
pub mod Signing
pub mod Counting
pub mod Refusing
pub mod Leaving
pub mod Booking
pub mod Fitting
pub mod Unjoined
pub mod Keeping
pub mod Ending
pub mod Telling
pub mod Delivering
pub mod Furthering
pub mod Granting
pub mod Engine
