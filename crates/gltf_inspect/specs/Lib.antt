pub mod Refusals
pub mod Extensions
pub mod Versions
pub mod Parents
pub mod Marks
pub mod Unused
pub mod Documents
