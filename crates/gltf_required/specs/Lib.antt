pub mod Required
pub mod Import
pub mod Files
pub mod Laws
pub mod Left
pub mod Mended
pub mod Read
