pub mod Bare
pub mod Lifted
pub mod Records
