-- The table's proofs, by what they speak of.
pub mod Scratch
pub mod Walks
pub mod Scans
pub mod Pairs
pub mod Guards
pub mod Placing
pub mod Counting
pub mod Laws
