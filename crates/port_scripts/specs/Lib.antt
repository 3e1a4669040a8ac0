pub mod Downs
pub mod Words
