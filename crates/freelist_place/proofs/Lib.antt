pub mod Counting
pub mod Serving
pub mod SettingUp
pub mod Threading
pub mod Writing
