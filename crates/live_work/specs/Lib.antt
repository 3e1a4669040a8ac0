pub mod Numbers
pub mod Minds
pub mod Sending
pub mod Sharing
pub mod Feeding
pub mod Looking
pub mod Pooling
