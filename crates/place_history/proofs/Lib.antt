pub mod EntryReplay
pub mod QueueStep
pub mod ArrivalEntries
pub mod Handouts
pub mod RequestEntries
pub mod QueueSweep
pub mod QueuesOfPlace
pub mod ListingLines
