mod Readings
mod StepRule
mod Zeros
