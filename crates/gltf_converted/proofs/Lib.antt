pub mod Back
pub mod Images
pub mod Sources
pub mod Held
pub mod Typed
