pub mod Reading
pub mod Uses
pub mod Materials
pub mod Textures
pub mod Nodes
pub mod Views
pub mod Metadata
