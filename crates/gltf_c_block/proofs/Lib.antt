pub mod Blocks
pub mod Typed
