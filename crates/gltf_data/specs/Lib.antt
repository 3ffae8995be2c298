pub mod Iter
pub mod Walk
pub mod Steps
pub mod Parts
pub mod Unreadable
pub mod Texts
pub mod Answers
pub mod Documents
