-- The free list is an engine.
pub mod Refusing
pub mod Stepping
pub mod Signing
pub mod Counting
pub mod Booking
pub mod Fitting
pub mod Keeping
pub mod Handing
pub mod Idle
pub mod Ending
pub mod Telling
pub mod CleaningUp
pub mod Delivering
pub mod Furthering
pub mod Granting
pub mod Engine
