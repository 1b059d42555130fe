pub mod Reminders
pub mod Ticking
pub mod Closing
