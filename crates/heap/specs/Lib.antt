pub mod Heap
pub mod History
