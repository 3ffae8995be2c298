pub mod Defaults
pub mod Images
pub mod Textures
pub mod Cameras
pub mod Lights
pub mod Variants
pub mod Documents
