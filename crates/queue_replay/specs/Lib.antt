pub mod Waiting
pub mod Going
pub mod Telling
pub mod Leaving
pub mod Departed
pub mod Replays
pub mod Underway
pub mod NumberWalk
