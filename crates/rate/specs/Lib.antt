pub mod Refused
pub mod Request
pub mod Writing
pub mod Rates
