pub mod Arrivals
pub mod Gates
