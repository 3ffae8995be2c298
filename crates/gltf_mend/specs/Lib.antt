pub mod Edits
pub mod Attributes
pub mod Channels
pub mod Textures
pub mod Mended
