pub mod OnePort
