-- The rule of the rows, and how a row is found.
pub mod Tests
pub mod Rows
pub mod Rank
