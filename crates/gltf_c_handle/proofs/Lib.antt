pub mod Held
pub mod Pointed
pub mod Written
