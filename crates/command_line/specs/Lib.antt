pub mod Numerals
pub mod Arguments
