pub mod Animations
pub mod Lists
pub mod Documents
