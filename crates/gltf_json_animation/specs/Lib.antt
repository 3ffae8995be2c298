pub mod Codes
pub mod Animations
