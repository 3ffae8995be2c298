pub mod Vertices
pub mod Topologies
pub mod Modes
pub mod Items
pub mod Splines
