pub mod Keys
pub mod Passed
