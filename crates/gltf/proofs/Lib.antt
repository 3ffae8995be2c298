pub mod Answered
pub mod Parts
pub mod LayerLaws
pub mod Once
pub mod WithBuffers
pub mod Files
pub mod Readers
pub mod Room
mod Imported
mod OfBytes
mod Vertices
