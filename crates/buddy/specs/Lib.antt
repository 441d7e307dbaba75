pub mod Deliveries
pub mod Ready
