pub mod Marks
pub mod Once
pub mod Refused
pub mod Seen
pub mod Turns
