pub mod Wire
pub mod Linked
