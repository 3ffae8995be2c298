pub mod Climbs
pub mod Depths
pub mod Skeletons
pub mod Jumps
pub mod Trees
