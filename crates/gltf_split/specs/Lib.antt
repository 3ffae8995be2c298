pub mod Views
pub mod Images
pub mod Splits
pub mod Refusals
pub mod Laws
