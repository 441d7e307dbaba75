pub mod Fates
pub mod Comings
