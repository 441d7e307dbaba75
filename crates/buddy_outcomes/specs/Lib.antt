pub mod Gate
pub mod Ask
pub mod Deliver
pub mod Return
pub mod SetUp
pub mod Refusals
