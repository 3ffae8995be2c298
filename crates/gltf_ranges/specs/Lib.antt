pub mod Alike
pub mod Ranges
pub mod Budget
