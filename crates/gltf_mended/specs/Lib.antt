pub mod Puts
pub mod Laws
pub mod Left
pub mod Edited
pub mod Ordered
pub mod Whole
