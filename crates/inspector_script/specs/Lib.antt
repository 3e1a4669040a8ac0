pub mod Blocks
pub mod Grammar
pub mod Numbers
pub mod ScriptFile
pub mod Scripts
