pub mod PlainLemmas
pub mod Lefts
pub mod Fronts
pub mod Overridden
pub mod Cursors
pub mod Nexts
