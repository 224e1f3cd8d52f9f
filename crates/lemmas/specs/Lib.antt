-- What every layer's definitions may use.
pub mod Count
pub mod Members
pub mod Sums
pub mod Bytes
pub mod Stores
