pub mod Back
pub mod Again
pub mod Runs
pub mod OneOutcome
pub mod Unread
pub mod Instances
