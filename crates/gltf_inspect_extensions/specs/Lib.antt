pub mod Extended
pub mod Records
pub mod Materials
pub mod Documents
