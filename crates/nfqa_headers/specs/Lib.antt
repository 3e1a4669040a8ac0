pub mod Numbers
pub mod Kinds
pub mod Headers
pub mod AttributeReading
pub mod AttributeWriting
