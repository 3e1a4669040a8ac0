pub mod Cards
pub mod Ids
pub mod RequestResults
pub mod StepReplies
pub mod Departures
pub mod OnwardPackets
pub mod Parts
pub mod Replays
