pub mod Parts
pub mod Documents
pub mod Laws
