pub mod Fitting
pub mod Rows
pub mod Queues
