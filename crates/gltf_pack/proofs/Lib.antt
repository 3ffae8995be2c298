pub mod Spaces
pub mod Parts
pub mod Alike
pub mod Kept
