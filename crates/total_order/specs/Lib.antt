pub mod Orders
pub mod Steps
pub mod TotalOrder
pub mod Places
pub mod Ready
pub mod OneThread
pub mod Examples
pub mod TimedExamples
