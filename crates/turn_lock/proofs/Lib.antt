pub mod Trees
pub mod Lists
mod Seats
mod Steps
mod Ends
