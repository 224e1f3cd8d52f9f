-- The packed form's proofs, by what they speak of.
pub mod Words
pub mod Buckets
pub mod Bytes
pub mod Writing
pub mod Reading
