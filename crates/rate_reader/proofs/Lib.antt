pub mod Accepted
pub mod OneOutcome
pub mod Held
pub mod Cases
