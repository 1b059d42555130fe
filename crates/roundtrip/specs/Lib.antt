pub mod Trip
pub mod Samples
pub mod Cases
