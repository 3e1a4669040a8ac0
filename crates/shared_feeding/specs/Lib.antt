pub mod ByHand
pub mod Joining
pub mod Lines
pub mod Sights
