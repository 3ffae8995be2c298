pub mod Refused
pub mod WithMends
