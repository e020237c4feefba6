pub mod Status
pub mod Notes
pub mod Verdicts
pub mod Tries
pub mod Answers
pub mod Questions
pub mod Ending
