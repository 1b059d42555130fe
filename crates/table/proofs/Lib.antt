pub mod First
pub mod Walking
pub mod Ways
pub mod Saying
pub mod Places
pub mod Parts
pub mod Stored
