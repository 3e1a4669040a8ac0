pub mod Numbers
pub mod Roles
pub mod Views
pub mod Lines
pub mod Fills
pub mod Invariants
pub mod Turns
