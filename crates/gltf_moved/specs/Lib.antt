pub mod Laws
pub mod Images
pub mod Views
pub mod RowLaws
