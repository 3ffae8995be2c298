pub mod Repacked
pub mod Laws
