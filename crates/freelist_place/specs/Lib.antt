pub mod Lent
pub mod Ready
