pub mod DepthFirst
pub mod Reached
pub mod Walks
