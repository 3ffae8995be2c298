pub mod Apart
pub mod Names
