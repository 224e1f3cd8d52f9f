-- The pass over the cells, and what the call answers.
pub mod Passes
