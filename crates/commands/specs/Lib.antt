pub mod Account
pub mod Headline
pub mod Ending
