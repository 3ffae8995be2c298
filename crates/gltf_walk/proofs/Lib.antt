pub mod Rests
pub mod Costs
pub mod Slices
pub mod Keeping
pub mod Flags
pub mod Reaching
pub mod Stepping
