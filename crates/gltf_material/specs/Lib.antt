pub mod Defaults
pub mod Textures
pub mod Parts
pub mod Materials
pub mod Variants
pub mod Documents
