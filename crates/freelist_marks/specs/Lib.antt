pub mod Numbered
pub mod Releasable
pub mod Turned
