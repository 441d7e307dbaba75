pub mod Ended
pub mod Found
pub mod Order
pub mod Seat
pub mod Stand
pub mod Settled
