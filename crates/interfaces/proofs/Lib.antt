-- What is proved of interface tables.
-- Assumes nothing.
pub mod RowByRow
pub mod Cells
pub mod Answers
pub mod Settled
