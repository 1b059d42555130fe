pub mod Spelling
pub mod Forms
pub mod Reading
pub mod RoundTrip
pub mod OneAnswer
pub mod Instances
