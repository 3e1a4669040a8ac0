pub mod Unmet
pub mod Comparing
pub mod Tallying
pub mod Following
