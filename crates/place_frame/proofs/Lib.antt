pub mod Filling
pub mod StepBehind
pub mod Fronts
pub mod Frames
