pub mod Bytes
pub mod Whole
pub mod Framing
pub mod Rows
