pub mod Numbers
pub mod Answers
pub mod Rule
pub mod Work
pub mod Desks
