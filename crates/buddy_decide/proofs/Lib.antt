-- What the code that decides a call shows of it.
pub mod Asking
pub mod Known
pub mod Reading
pub mod Seeing
pub mod Shows
pub mod Tests
