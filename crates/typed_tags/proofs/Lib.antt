-- Digits, and what a tag is made of.
pub mod Digits
