pub mod Numbers
pub mod Sending
pub mod Schedule
pub mod LettersLeft
pub mod Emptyings
