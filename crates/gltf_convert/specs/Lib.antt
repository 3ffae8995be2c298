pub mod Files
pub mod Forms
pub mod Laws
