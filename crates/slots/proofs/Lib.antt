pub mod Stores
pub mod Instance
