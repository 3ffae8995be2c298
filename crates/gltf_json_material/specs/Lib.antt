pub mod Codes
pub mod Textures
pub mod MaterialExtensions
pub mod Materials
