pub mod Faults
pub mod Handles
pub mod Supported
pub mod Metadata
