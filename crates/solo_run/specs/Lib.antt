pub mod Numbers
pub mod RunState
