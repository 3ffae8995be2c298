pub mod Lengths
pub mod Refusals
pub mod Given
pub mod Names
pub mod Buffers
pub mod Opened
