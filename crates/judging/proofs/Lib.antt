pub mod Ordering
pub mod Sounds
pub mod Refusing
pub mod Saying
pub mod Spots
pub mod OneOutcome
