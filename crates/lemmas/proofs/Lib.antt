-- The lemmas, by what they speak of.
pub mod Count
pub mod Members
pub mod Bits
pub mod Bools
pub mod Powers
pub mod Numbers
pub mod Sums
pub mod Bytes
pub mod Stores
pub mod Digits
