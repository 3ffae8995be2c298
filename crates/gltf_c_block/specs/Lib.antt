pub mod Heap
pub mod Owned
