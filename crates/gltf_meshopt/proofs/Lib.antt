pub mod IndexRuns
pub mod Ends
pub mod Filling
pub mod Pieces
pub mod ColumnRuns
pub mod ElementRuns
pub mod BlockRuns
pub mod TriangleRuns
