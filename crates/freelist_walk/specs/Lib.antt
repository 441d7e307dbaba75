pub mod Left
pub mod Grounds
pub mod Turn
pub mod Walked
