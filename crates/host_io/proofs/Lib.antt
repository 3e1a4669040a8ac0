pub mod Pieces
pub mod FirstEntries
pub mod Steps
