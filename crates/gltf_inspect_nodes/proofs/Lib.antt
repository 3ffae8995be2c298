pub mod Marking
pub mod Once
pub mod Viewed
pub mod Looped
pub mod Fixed
pub mod Falling
pub mod Passing
