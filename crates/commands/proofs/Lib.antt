-- The commands' proofs, by what they speak of.
pub mod Scanning
pub mod Keywords
