pub mod Numbers
pub mod Packet
pub mod Frame
