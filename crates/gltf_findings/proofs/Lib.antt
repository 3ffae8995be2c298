pub mod Found
pub mod Depth
