pub mod Defaults
pub mod Numbers
pub mod Textures
pub mod Materials
pub mod Nodes
pub mod Views
pub mod Others
pub mod Rules
