-- What the converter does to a file, byte by byte, and what is promised of it.
pub mod Converter
pub mod Conversion
pub mod Positive
