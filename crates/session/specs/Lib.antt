pub mod Numbers
pub mod Layout
pub mod Kinds
pub mod Bodies
