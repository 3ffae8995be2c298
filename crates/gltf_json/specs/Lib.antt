pub mod Documents
pub mod Alike
pub mod Reading
