pub mod OneOutcome
pub mod Cases
pub mod Bits
pub mod Flags
pub mod Formulas
pub mod Aging
pub mod Hearing
pub mod Instance
