pub mod Status
pub mod Message
pub mod Fault
pub mod Json
