pub mod Meshes
pub mod Primitives
pub mod Attributes
pub mod Bounds
pub mod Nodes
pub mod Scenes
pub mod Skins
pub mod Documents
