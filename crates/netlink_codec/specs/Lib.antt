pub mod Fields
pub mod Numbers
pub mod Messages
pub mod Attributes
pub mod Acknowledgements
