pub mod Seats
pub mod Sums
pub mod Numbered
