pub mod Ancestors
