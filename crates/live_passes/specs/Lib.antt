pub mod Views
pub mod Numbered
