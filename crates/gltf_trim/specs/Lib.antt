pub mod Known
pub mod Marks
pub mod Lengths
pub mod Tails
pub mod Passed
pub mod Trimmed
pub mod Trims
pub mod TrimmedLaws
