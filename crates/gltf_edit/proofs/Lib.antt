pub mod Views
pub mod Pictures
pub mod Said
