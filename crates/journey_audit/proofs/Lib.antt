pub mod TestCounts
pub mod JourneySoundness
pub mod ArrivalComparison
pub mod Tallies
pub mod LeastUneven
pub mod Entries
