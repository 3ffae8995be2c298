pub mod Named
pub mod Answers
pub mod Paths
pub mod Sources
pub mod Inside
pub mod Slices
