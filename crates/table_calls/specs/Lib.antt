pub mod Emptied
pub mod Look
pub mod Event
pub mod Writes
pub mod Calls
pub mod Demands
