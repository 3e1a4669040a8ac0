pub mod Cuts
pub mod FieldValues
pub mod Header
pub mod Records
pub mod WholeFile
pub mod Answers
pub mod Room
pub mod FaultKinds
