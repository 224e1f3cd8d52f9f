-- The steps of the code, and what the callers use.
pub mod Digits
pub mod FieldLoops
pub mod Laws
