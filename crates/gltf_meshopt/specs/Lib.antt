pub mod Numbers
pub mod Reading
pub mod Streams
pub mod Indices
pub mod Attributes
pub mod Triangles
