pub mod Six
pub mod OneOutcome
