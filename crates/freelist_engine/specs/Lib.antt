pub mod Shape
pub mod CleanUp
