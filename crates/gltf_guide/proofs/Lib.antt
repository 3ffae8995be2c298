pub mod Firsts
pub mod Flat
pub mod Mended
pub mod Reasons
