pub mod Numbers
pub mod Fields
pub mod Card
pub mod SharedBytes
pub mod SequenceLends
pub mod ListWithRoom
