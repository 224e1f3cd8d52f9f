-- What a reader has to believe of digits as they are typed and of the numbers that they make.
pub mod Digits
pub mod Numbers
