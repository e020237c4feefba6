pub mod Answers
pub mod Words
pub mod Slabs
pub mod Parts
pub mod Outcome
pub mod Help
pub mod Running
pub mod Promise
