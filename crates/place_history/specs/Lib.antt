pub mod Numbers
pub mod PlaceState
pub mod Calls
pub mod Changes
pub mod PlaceInvariant
pub mod Asking
pub mod Lines
