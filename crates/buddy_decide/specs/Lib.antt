pub mod Plans
pub mod Sees
pub mod Sought
