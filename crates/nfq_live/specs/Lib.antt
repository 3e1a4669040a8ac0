pub mod Sizes
pub mod Feeders
pub mod Workers
pub mod Crews
pub mod Openings
pub mod Endings
pub mod Run
