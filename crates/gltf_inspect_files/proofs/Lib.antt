pub mod Errors
pub mod Answered
pub mod Accepted
pub mod Wholes
pub mod Whole
pub mod LeftOut
pub mod Asking
