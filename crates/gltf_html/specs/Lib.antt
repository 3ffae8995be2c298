pub mod Html
pub mod References
