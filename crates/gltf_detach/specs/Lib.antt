pub mod Naming
pub mod Detached
pub mod DetachedLaws
