pub mod Booked
pub mod Lent
pub mod Served
pub mod Sides
