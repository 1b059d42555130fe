pub mod Refused
pub mod Opcodes
pub mod Sets
pub mod Answers
pub mod Events
pub mod Flags
pub mod Run
pub mod Cases
