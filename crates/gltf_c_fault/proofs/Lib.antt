pub mod Terminated
pub mod Behind
