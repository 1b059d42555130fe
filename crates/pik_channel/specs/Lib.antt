pub mod Version
pub mod Answers
