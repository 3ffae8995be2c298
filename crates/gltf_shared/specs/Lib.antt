pub mod Shown
pub mod Shared
pub mod Asked
pub mod Given
pub mod Lengths
