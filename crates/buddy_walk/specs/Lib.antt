pub mod Views
pub mod Walks
