pub mod Appending
pub mod Format
pub mod Formed
pub mod Journal
pub mod Placing
pub mod WellFormed
