pub mod Steps
pub mod Halves
pub mod Sides
pub mod Signed
pub mod Cases
