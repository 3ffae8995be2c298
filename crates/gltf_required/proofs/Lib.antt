pub mod Bare
pub mod Told
pub mod Values
