-- What is proved of the converter's definitions, and the steps of its code.
pub mod Conversion
pub mod Order
pub mod Positive
