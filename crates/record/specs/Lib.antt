pub mod Place
pub mod Buffers
pub mod Moving
pub mod Walk
pub mod Cell
pub mod Lengths
