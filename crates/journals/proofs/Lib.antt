pub mod Decimals
pub mod Lengths
pub mod Lanes
pub mod Placings
pub mod StillToCome
pub mod Texts
