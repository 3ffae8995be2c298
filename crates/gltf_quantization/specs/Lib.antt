pub mod Accepted
pub mod Quantized
