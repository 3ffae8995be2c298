pub mod Raw
pub mod Flat
pub mod Packed
pub mod Components
pub mod Taken
pub mod Texts
pub mod Why
