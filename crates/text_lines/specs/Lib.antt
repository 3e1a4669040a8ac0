pub mod Digits
pub mod Hexadecimal
pub mod Numbers
pub mod Numerals
pub mod Refusals
pub mod Words
