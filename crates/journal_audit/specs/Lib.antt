pub mod Illegal
pub mod Watching
pub mod Parts
pub mod Given
pub mod Findings
pub mod Printed
