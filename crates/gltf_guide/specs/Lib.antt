pub mod Bytes
pub mod Imports
pub mod Materials
pub mod Scenes
