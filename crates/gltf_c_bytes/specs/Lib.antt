pub mod Info
pub mod Lists
pub mod Places
pub mod Read
pub mod Shapes
