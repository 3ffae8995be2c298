pub mod Zeros
pub mod Placed
pub mod Parts
pub mod Few
pub mod Decides
mod Alike
