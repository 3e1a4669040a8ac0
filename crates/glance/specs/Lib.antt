pub mod Numbers
pub mod Words
pub mod Views
pub mod Rule
pub mod Invariants
