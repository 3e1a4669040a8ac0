pub mod WordCuts
pub mod Digits
pub mod Numerals
pub mod SilentLines
pub mod HexWords
pub mod TextCuts
