pub mod Refusals
pub mod Octets
pub mod Answers
pub mod Laying
pub mod ShortFormat
