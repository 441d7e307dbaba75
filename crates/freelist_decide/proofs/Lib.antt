pub mod Few
pub mod Holding
pub mod Seeing
pub mod Tests
