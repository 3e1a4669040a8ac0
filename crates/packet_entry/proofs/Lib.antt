pub mod Cuts
mod Lanes
