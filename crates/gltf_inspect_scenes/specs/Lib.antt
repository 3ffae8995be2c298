pub mod Nodes
pub mod Animations
pub mod Outputs
pub mod Scenes
