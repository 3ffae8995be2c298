pub mod Owned
pub mod Given
pub mod Calls
pub mod Opened
pub mod Waiting
