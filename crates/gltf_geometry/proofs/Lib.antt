pub mod Ranges
pub mod Loops
pub mod Positions
pub mod Keyframes
