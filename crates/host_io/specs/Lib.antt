pub mod Host
pub mod Machine
