pub mod Import
pub mod Files
pub mod Reader
pub mod Nothing
pub mod Laws
