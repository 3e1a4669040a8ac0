pub mod Numbers
pub mod Inputs
pub mod Statuses
pub mod Printed
pub mod Outputs
pub mod Files
pub mod Parts
pub mod Causes
