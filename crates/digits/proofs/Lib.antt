-- Texts from a place on, digits, and numbers digit by digit.
pub mod Texts
pub mod Digits
pub mod Numbers
