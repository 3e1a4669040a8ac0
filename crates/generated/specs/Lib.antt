pub mod Numbers
pub mod Stream
pub mod Packets
pub mod Captures
pub mod Texts
pub mod Values
