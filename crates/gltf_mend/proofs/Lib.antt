pub mod Lists
pub mod Named
pub mod Semantics
