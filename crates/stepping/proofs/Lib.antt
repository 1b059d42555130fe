pub mod Stamping
pub mod Stepping
pub mod OneOutcome
