pub mod Key
pub mod First
pub mod Table
pub mod Way
pub mod Addressed
pub mod Words
